pub mod Types
pub mod Numbers
pub mod Rows
pub mod IntoIter
pub mod Operations
