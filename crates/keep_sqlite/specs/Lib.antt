pub mod Answers
pub mod Format
pub mod Knowing
pub mod Telling
