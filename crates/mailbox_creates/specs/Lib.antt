pub mod Properties
pub mod Creates
pub mod Rounds
pub mod Views
