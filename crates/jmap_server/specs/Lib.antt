pub mod Deeds
pub mod Openings
pub mod Lines
pub mod Workers
pub mod Serving
