pub mod HeldParts
pub mod Places
pub mod Standing
pub mod Begun
mod Probes
mod Blocks
mod Kept
mod KeptWords
