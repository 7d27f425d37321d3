pub mod OneReturn
pub mod Depths
pub mod Exact
pub mod Scan
pub mod Promised
pub mod Verdicts
