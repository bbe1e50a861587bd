pub mod CourseLaws
pub mod GoalLaws
pub mod PickExists
pub mod PickLaws
pub mod WalkLaws
