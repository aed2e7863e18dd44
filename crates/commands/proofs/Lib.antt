mod CollectionRead
mod FilesMade
pub mod FilesRead
mod MapRead
mod Names
mod OtherSide
mod RepliesMade
pub mod SegmentsFound
mod SegmentsMerged
mod SegmentsRead
mod SideFound
mod SideRead
mod WordsMade
