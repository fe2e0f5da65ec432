pub mod JsonLemmas
pub mod StepsLemmas
pub mod DocumentLemmas
