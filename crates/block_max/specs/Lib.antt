pub mod Blocks
pub mod Cut
pub mod Laws
pub mod SideFaults
pub mod SideWords
