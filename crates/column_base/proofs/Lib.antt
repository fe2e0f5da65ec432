pub mod ListsLemmas
pub mod SlotsLemmas
pub mod Utf8Lemmas
pub mod AnswersLemmas
pub mod PushesLemmas
