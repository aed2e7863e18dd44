pub mod Replaced
pub mod Known
pub mod Created
pub mod Standard
