-- What contracts of private functions cite, and `run` does not.
pub mod LoadedSide
pub mod ReadSegments
