mod Rows
mod Offers
mod Postings
mod Order
mod Scans
mod Steps
mod Heap
mod Firsts
mod Bests
mod Reordered
mod Windows
mod Given
mod Marks
mod Found
mod Skipping
mod Candidates
pub mod TakenBack
pub mod AskedLists
mod Shared
mod AtOnce
mod Few
mod Floors
mod Reaching
mod AnyOrder
