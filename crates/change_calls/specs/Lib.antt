pub mod Changes
pub mod TouchedRecords
pub mod Pages
pub mod Responses
