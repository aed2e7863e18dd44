pub mod Gamma
pub mod GammaLaws
pub mod ListBits
pub mod ListParts
pub mod ListHead
pub mod ListStated
pub mod ListPlaces
pub mod Laws
