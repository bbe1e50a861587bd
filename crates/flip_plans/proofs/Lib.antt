mod AddLaws
pub mod AskerLaws
mod FitLaws
pub mod FollowLaws
pub mod PlanLaws
pub mod TurnLaws
