pub mod Budget
pub mod Course
pub mod Laws
pub mod Walk
