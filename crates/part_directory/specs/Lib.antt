pub mod Alone
pub mod PartOf
pub mod HeldParts
pub mod DirectorySequence
pub mod Search
pub mod KeptWords
