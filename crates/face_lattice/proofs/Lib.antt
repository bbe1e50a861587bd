mod AskLaws
pub mod CellLaws
pub mod ChangeLaws
pub mod CountLaws
pub mod FallLaws
pub mod ForgetLaws
pub mod FrontLaws
pub mod HoldLaws
pub mod IdLaws
mod IdleLaws
mod KeepLaws
pub mod KeyLaws
pub mod LastLaws
pub mod LatticeLaws
pub mod ListLaws
pub mod LossLaws
pub mod MaskLaws
pub mod NeedLaws
mod OuterLaws
pub mod PartLaws
mod PlaceLaws
pub mod PutLaws
pub mod ReadLaws
pub mod RoomLaws
pub mod SlabLaws
pub mod Statements
pub mod ViewLaws
