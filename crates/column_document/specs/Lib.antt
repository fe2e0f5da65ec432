pub mod Fields
pub mod Json
pub mod Values
pub mod Steps
pub mod Document
