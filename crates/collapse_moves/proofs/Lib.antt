pub mod CollapseLaws
pub mod FreeLaws
pub mod HolderLaws
