pub mod FollowingLaws
pub mod JournalLaws
pub mod KeptOptions
pub mod MergeLaws
pub mod PointLaws
