pub mod Ones
mod Marks
pub mod Reading
pub mod OneList
mod Views
mod Following
mod Steps
mod Kept
mod Writing
