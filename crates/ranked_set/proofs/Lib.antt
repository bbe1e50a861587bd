pub mod BlockLaws
pub mod ChangeLaws
pub mod ExcessLaws
pub mod SearchLaws
