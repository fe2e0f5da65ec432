pub mod Bits
pub mod Iterators
pub mod Operations
pub mod Slots
pub mod Validity
pub mod Zipped
