pub mod Forms
pub mod Fronts
pub mod Grammar
pub mod Laws
pub mod Reading
pub mod Tokens
