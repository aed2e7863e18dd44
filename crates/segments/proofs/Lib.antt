mod Rows
mod Shifts
mod Joins
mod Frequencies
mod Blocks
mod Follow
pub mod InRange
mod JoinedLists
mod JoinedWell
mod RangesJoined
