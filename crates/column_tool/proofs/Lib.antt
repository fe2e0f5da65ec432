pub mod TextLemmas
pub mod RepliesLemmas
pub mod WordsLemmas
