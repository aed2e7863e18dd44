pub mod Numbers
pub mod Begun
mod Breaks
mod Prefixes
mod FirstFaults
mod Limits
mod ReadsFrom
mod PieceAnswers
mod SameAnswer
mod Heads
mod Documents
mod Frequencies
mod Sizes
mod Starts
mod TriesList
mod TriesEnd
mod Refusals
pub mod Aligned
mod ListsRead
mod CollectionRead
pub mod InOrder
mod InTurn
mod Rows
mod WholeFaults
