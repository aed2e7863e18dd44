mod FilesLeft
mod Made
mod Names
mod RunEnds
mod Stopped
mod Tabled
