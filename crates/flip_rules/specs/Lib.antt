pub mod Candidates
pub mod Counts
pub mod Members
pub mod Tallies
pub mod Tests
pub mod Undone
