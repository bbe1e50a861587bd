pub mod Forest
pub mod Pairs
pub mod Pieces
