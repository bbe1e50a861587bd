pub mod CountingLaws
pub mod CuttingLaws
pub mod JudgingLaws
pub mod TranscriptLaws
