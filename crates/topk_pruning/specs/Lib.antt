pub mod Terms
pub mod Order
pub mod Windows
pub mod Held
pub mod Saves
