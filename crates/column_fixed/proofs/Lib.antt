pub mod ChunksLemmas
pub mod SlotsLemmas
pub mod RowsLemmas
pub mod OperationsLemmas
pub mod EqualLemmas
