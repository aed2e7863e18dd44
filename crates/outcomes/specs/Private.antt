-- What contracts of private functions cite, and `run` does not.
pub mod ErrPieces
