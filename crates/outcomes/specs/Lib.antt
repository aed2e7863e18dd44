pub mod StatusNumber
pub mod ErrLines
pub mod Outside
pub mod Outcome
pub mod Ends
pub mod Stops
pub mod Private
