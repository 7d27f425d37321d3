pub mod Places
pub mod Kept
pub mod Checks
pub mod RepliesApart
pub mod Promises
