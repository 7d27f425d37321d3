pub mod Sets
pub mod Touched
