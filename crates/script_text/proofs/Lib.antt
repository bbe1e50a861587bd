pub mod CommandLaws
pub mod PartLaws
pub mod PieceLaws
pub mod PlaceLaws
