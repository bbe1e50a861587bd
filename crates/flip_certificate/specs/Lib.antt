pub mod Count
pub mod Drafts
pub mod Laws
pub mod Lines
pub mod Reading
pub mod Valid
