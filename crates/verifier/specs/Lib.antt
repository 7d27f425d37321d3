pub mod ReturnDepths
pub mod Verdict
