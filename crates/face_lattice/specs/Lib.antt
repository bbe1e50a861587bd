pub mod Cells
pub mod Counts
pub mod Lattice
pub mod Laws
pub mod Slots
pub mod States
