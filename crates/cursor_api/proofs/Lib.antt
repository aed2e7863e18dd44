mod Rows
mod Places
mod Frequencies
pub mod FirstPosting
mod Lists
