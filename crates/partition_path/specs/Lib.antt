pub mod FoundCuts
pub mod Tables
pub mod Chains
pub mod Rests
pub mod Joints
pub mod Trying
pub mod Lines
