pub mod Added
pub mod Columns
pub mod Elimination
pub mod Laws
pub mod Matrix
pub mod Ones
pub mod Span
