pub mod Staying
pub mod Writes
pub mod Images
pub mod Passing
pub mod Numbers
pub mod Ports
