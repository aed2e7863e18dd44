-- the contract of the public calls
pub mod AnswerText
-- what private functions and proofs cite
pub mod AnswersLines
pub mod Unended
pub mod AnswersEnded
pub mod Faults
