pub mod Signals
pub mod Parts
pub mod Ranges
pub mod Refusals
pub mod FixedBits
