pub mod Candidates
pub mod Greedy
pub mod Laws
pub mod Missing
pub mod Placement
pub mod Places
pub mod Shellings
pub mod Stars
