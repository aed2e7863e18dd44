mod Named
mod ImageMade
pub mod FilesInTurn
