pub mod BlockLists
pub mod Laws
pub mod Props
pub mod Seen
