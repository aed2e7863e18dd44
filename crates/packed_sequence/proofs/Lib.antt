mod SequenceWordsFit
pub mod OneSequenceBits
pub mod LonePlaces
pub mod PartedPlaces
pub mod FlagAndField
pub mod SequenceBack
mod SequencePlaces
pub mod WindowBits
pub mod WindowFields
