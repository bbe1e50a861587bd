pub mod Collapses
pub mod Holders
pub mod Laws
