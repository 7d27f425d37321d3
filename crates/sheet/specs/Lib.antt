pub mod Entry
pub mod Depths
