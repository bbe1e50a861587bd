pub mod ColumnSteps
pub mod KernelLaws
pub mod OnesLaws
pub mod OrderLaws
pub mod PlaceLaws
pub mod RowLaws
pub mod SpanLaws
pub mod SumLaws
