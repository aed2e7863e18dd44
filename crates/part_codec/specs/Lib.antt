pub mod PartBits
pub mod Forms
pub mod PartView
pub mod PartValues
pub mod Laws
pub mod Sought
pub mod KeptWords
