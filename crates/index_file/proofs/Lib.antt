mod Rows
mod WordBytes
pub mod Lengths
pub mod CutLists
mod Files
mod OnePackedFile
mod Added
mod Spelled
mod OneList
mod TermFaults
mod Agree
mod Standing
mod Prefixes
mod Frames
mod FilePieces
mod Spelling
mod FirstFaults
mod StatedIndex
mod Reading
mod OneFault
mod Both
mod Sums
mod Measured
mod Blocks
mod PackedFrames
mod PackedFirst
mod PackedStarts
mod PackedPieces
mod PackedBack
mod PackedGather
mod PackedStated
mod PackedIndex
mod FileKinds
pub mod PackedCosts
mod MeasuredFiles
pub mod FittingFiles
pub mod NearStored
mod StoredCosts
mod PackedChecks
mod PackedLists
mod AddedBoth
mod PackedBuilt
mod ListStarts
mod EmptyLists
mod NumbersRead
mod ListsInTurn
