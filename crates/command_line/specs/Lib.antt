pub mod Table
pub mod Command
pub mod Asked
pub mod WordsErrors
pub mod Private
