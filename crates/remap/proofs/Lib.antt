mod Members
mod Arranged
mod Images
mod Matched
mod OneList
mod Vectors
pub mod Applied
mod Rows
mod Ids
mod MapReads
mod MapFaultsFound
mod MapIds
mod MapRead
mod OneFault
