pub mod CornerLaws
pub mod MovedLaws
pub mod TableLaws
pub mod TestLaws
