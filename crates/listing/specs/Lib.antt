pub mod Table
pub mod Rows
pub mod Patterns
pub mod Agreement
