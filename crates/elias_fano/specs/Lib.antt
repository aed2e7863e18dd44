pub mod EfBits
pub mod EfPlaces
pub mod EfView
pub mod Laws
