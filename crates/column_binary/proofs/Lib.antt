pub mod SlotsLemmas
pub mod RowsLemmas
pub mod FirstLemmas
pub mod JoinLemmas
pub mod ValuesLemmas
pub mod OperationsLemmas
