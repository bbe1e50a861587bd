pub mod Answers
pub mod Following
pub mod Kept
pub mod Moves
pub mod Session
