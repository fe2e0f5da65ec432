pub mod TextsLemmas
pub mod BuilderLemmas
