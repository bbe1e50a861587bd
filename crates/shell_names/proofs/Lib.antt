pub mod StateLaws
pub mod StepLaws
