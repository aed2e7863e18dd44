pub mod Choices
pub mod FirstChecks
pub mod EntryLaws
pub mod StatedParts
mod Lengths
mod Stated
mod Writing
mod Follows
mod Accepting
mod Entries
mod Parts
mod PartSteps
