pub mod Keeps
pub mod Opcodes
pub mod OneWord
pub mod Numbers
pub mod Closed
