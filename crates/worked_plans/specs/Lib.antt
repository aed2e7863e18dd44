pub mod OneList
pub mod TwoLists
