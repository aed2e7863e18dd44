pub mod Behind
pub mod Head
pub mod Laws
pub mod Later
pub mod SequenceBits
pub mod SequencePlaces
pub mod SequenceStated
pub mod Sums
