mod Steps
mod Lists
mod Written
mod Blocks
pub mod FirstPosting
