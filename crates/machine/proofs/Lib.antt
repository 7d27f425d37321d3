mod Nibbles
mod Missing
mod Split
mod Levels
pub mod Marks
