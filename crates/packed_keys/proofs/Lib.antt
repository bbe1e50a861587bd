pub mod OrderLaws
pub mod PushLaws
pub mod UnpackLaws
pub mod WordLaws
