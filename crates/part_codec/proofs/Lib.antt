pub mod Relative
mod Parts
mod Steps
mod Kept
pub mod KeptWords
mod Values
