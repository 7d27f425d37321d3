pub mod Flow
pub mod Control
pub mod Transfers
