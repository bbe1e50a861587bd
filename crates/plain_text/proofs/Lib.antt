pub mod BytesLaws
pub mod FrontLaws
