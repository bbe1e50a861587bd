pub mod Blocks
pub mod Ranked
