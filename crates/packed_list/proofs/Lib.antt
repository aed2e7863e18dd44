pub mod GammaCodes
pub mod GammaBack
mod GammaReads
mod NearGammas
mod OneListBits
mod ListBack
mod ListRows
mod Appending
mod Written
mod ListPieces
mod ListWritten
pub mod ListPlaces
mod StatedList
mod ShortLists
