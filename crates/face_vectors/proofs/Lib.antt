pub mod ChooseLaws
pub mod FilledLaws
pub mod SignLaws
pub mod SumLaws
pub mod VectorLaws
