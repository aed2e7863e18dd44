mod ReadBack
mod InTurn
mod Joining
mod FirstJoined
mod Bounds
