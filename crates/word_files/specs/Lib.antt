-- contracts of the public calls
pub mod LoadWords
pub mod WriteFile
pub mod Given
-- what private functions and proofs cite
pub mod ReadWords
