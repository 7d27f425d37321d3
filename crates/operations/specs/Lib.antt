pub mod Data
pub mod Operands
pub mod Writes
pub mod Settings
