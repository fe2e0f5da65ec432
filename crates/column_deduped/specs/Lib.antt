pub mod Deduped
