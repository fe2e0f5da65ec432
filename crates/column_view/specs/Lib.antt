pub mod Views
pub mod ViewFaults
pub mod Cuts
