pub mod Cells
pub mod Greedy
pub mod Laws
pub mod Morse
pub mod Queues
pub mod Tally
