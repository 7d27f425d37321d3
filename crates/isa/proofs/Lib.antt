pub mod Words
pub mod None
pub mod Group
pub mod Overview
