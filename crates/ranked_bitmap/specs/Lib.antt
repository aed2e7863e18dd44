pub mod MapBits
pub mod MapPlaces
pub mod MapView
pub mod Laws
pub mod WholeWords
pub mod MarkedPlaces
