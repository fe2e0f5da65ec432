pub mod RowsLemmas
pub mod PushLemmas
pub mod ViewsLemmas
mod FixedLemmas
mod NumbersLemmas
