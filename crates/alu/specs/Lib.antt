pub mod Difference
pub mod Decimal
pub mod Results
pub mod Rows
