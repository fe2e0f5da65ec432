pub mod OffsetsLemmas
pub mod TextLemmas
pub mod GrowthLemmas
pub mod SlotsLemmas
pub mod EqualLemmas
pub mod LeavesLemmas
pub mod OperationsLemmas
