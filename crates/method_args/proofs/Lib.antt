pub mod IdTexts
pub mod NoPlaces
