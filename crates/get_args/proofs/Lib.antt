pub mod Unnamed
pub mod Halves
pub mod Cached
