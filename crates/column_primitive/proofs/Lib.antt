pub mod NumbersLemmas
pub mod RowsLemmas
pub mod OperationsLemmas
pub mod EqualLemmas
