mod LoadedWords
pub mod WrittenFile
pub mod Given
pub mod PlaceByPlace
