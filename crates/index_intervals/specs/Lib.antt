pub mod LongLists
pub mod Taken
pub mod Passed
