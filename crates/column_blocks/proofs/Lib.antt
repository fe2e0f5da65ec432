pub mod SumsLemmas
pub mod BlocksLemmas
pub mod AppendsLemmas
pub mod GrowthLemmas
pub mod RowsLemmas
pub mod SourcesLemmas
