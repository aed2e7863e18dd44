mod HighBits
pub mod Rising
pub mod Reading
mod Scanning
pub mod OneList
mod Views
mod Passing
mod Numbered
mod Checking
mod LowFields
mod Steps
mod Lookups
mod Writing
