pub mod Models
pub mod Lent
pub mod Replies
