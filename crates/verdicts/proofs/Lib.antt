pub mod EquivalentLaws
pub mod ManifoldLaws
pub mod PickedFlips
pub mod ReadyLaws
pub mod SphereLaws
pub mod VainLaws
pub mod VertexLinks
pub mod WayLaws
