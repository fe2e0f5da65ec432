pub mod SlotsLemmas
pub mod RowsLemmas
pub mod TextLemmas
pub mod OperationsLemmas
