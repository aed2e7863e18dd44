pub mod Counted
pub mod Told
mod Rows
