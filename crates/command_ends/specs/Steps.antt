-- What contracts of the steps and the commands cite, and `run` does not.
pub mod AtSource
pub mod LoadedIndex
pub mod Leaves
