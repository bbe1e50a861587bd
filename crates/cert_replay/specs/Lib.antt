pub mod Corners
pub mod Faults
