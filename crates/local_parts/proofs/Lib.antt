pub mod AroundLaws
pub mod SkeletonLaws
pub mod RidgeLaws
pub mod CountLaws
pub mod ForestLaws
pub mod PlaceLaws
pub mod ComponentLaws
pub mod StrongLaws
