pub mod Together
pub mod Plain
pub mod Ids
pub mod Outcomes
pub mod Singles
