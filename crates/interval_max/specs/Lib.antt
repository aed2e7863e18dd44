pub mod Intervals
pub mod Peaks
pub mod Bytes
pub mod Maxima
pub mod Kept
pub mod Search
pub mod Bounded
