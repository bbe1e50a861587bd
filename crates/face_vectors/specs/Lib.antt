pub mod Counts
pub mod Filled
pub mod Laws
pub mod Magnitude
pub mod Row
pub mod Vectors
