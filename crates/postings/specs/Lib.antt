pub mod Laws
pub mod Blocks
pub mod Sums
