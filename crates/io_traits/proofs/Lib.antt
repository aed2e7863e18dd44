mod Prefixes
mod Loading
pub mod Slots
pub mod OnlyReads
