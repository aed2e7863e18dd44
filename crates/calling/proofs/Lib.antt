mod OneList
mod Walked
