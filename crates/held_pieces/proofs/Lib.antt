pub mod SlotReads
mod Bytes
mod HeldNumbers
