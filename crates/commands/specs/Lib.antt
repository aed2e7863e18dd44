pub mod Files
pub mod Names
pub mod Private
pub mod Replies
pub mod Texts
