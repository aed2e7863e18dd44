mod Endings
mod Found
mod Merged
mod PlainWalk
mod Level
mod WordsRead
mod Rows
