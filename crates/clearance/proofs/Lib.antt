pub mod Ruled
pub mod Paths
pub mod Steps
pub mod Walks
pub mod Safety
