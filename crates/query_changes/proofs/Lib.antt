pub mod Stays
pub mod Untouched
pub mod Touching
pub mod UpToDate
pub mod ThreadMembers
pub mod Finding
pub mod States
mod ListTexts
mod OwnTexts
