pub mod Every
pub mod First
pub mod Wrap
pub mod Bit
