pub mod Texts
pub mod Operations
