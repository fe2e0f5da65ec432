pub mod Offsets
pub mod Text
pub mod Growth
pub mod Keys
pub mod Leaves
pub mod Operations
pub mod Iterators
