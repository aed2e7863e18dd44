pub mod Value
mod Words
mod FieldRows
pub mod Ranges
mod WordRanges
mod WordOnes
mod NthOnes
mod Flipped
mod Writing
mod Cut
mod OneAfter
pub mod OnesWritten
mod WordLaws
pub mod WordsBehind
pub mod Pieces
pub mod Prefixes
pub mod AllBits
pub mod Outcomes
