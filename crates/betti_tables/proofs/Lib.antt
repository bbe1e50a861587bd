pub mod BoundaryLaws
mod BuiltLaws
pub mod FaceLaws
mod FilledLaws
pub mod FlipLaws
pub mod LimitLaws
mod NameLaws
pub mod TableLaws
