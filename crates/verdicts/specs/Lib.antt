pub mod Laws
pub mod Ready
pub mod Sound
pub mod Tests
pub mod Verdicts
