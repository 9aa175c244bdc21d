pub mod Fields
pub mod Parts
pub mod Steps
pub mod Marks
pub mod Messages
pub mod Outcomes
pub mod ReadBack
