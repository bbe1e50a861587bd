pub mod Limits
pub mod State
pub mod Steps
pub mod Sums
