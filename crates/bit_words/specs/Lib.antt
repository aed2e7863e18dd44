pub mod Bits
pub mod Fields
pub mod Laws
pub mod Ones
