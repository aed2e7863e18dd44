pub mod EntryWords
pub mod EntryFacts
pub mod SequenceWords
pub mod SequenceFault
pub mod SequenceView
pub mod SequenceParts
pub mod Laws
