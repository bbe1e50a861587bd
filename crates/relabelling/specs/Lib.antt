pub mod Bijections
pub mod Colours
pub mod Flags
pub mod Laws
pub mod Least
pub mod Ridges
pub mod Search
pub mod Walks
