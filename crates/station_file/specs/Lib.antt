pub mod Reading
pub mod Station
pub mod Forms
pub mod Read
pub mod Write
pub mod Parts
pub mod Answers
pub mod Places
