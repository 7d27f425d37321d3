pub mod Formats
pub mod Rows
pub mod Search
pub mod Words
pub mod Unique
pub mod Agreement
