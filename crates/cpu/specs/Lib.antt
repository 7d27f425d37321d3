pub mod Reply
pub mod Execute
pub mod Cycles
pub mod Step
pub mod Cost
pub mod Run
pub mod Answers
pub mod Joined
