pub mod Started
pub mod WordsLoaded
pub mod Made
pub mod FileWritten
pub mod FilesWritten
pub mod IndexWritten
pub mod SourceRead
pub mod IndexRead
pub mod TextMade
mod OtherFile
