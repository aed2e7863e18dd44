mod Greatest
mod Steps
mod Sequences
mod Pairs
mod Rounded
mod Room
mod Whole
mod Cursors
mod Scores
mod Seen
mod Settled
mod Raised
mod Begun
pub mod Kept
