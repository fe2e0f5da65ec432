pub mod ViewsLemmas
pub mod FaultsLemmas
pub mod InlineLemmas
pub mod CutsLemmas
