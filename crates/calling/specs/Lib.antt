pub mod OneList
