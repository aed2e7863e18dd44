mod AddedFromFiles
mod AddedFromLists
mod Generating
pub mod Migrating
