pub mod Values
pub mod Configuration
pub mod BadPlaces
pub mod Lookups
