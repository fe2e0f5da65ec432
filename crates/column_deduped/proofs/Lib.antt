mod NamesLemmas
pub mod DedupedLemmas
mod TakenLemmas
