pub mod Askers
pub mod Laws
pub mod Plans
pub mod Steps
pub mod Turns
