pub mod JoinedIndexes
-- what private functions and proofs cite
pub mod JoinedSegments
pub mod InTurn
