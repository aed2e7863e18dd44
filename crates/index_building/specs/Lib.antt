-- contracts of the public calls
pub mod WordsOfFiles
pub mod WordsOfCollection
-- what private functions and proofs cite
pub mod AddedFromFiles
pub mod AddedFromLists
