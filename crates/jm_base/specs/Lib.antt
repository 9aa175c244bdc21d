pub mod Ids
pub mod UtcDates
pub mod UtcSeconds
pub mod Splices
