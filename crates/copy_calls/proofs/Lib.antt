pub mod Fetched
pub mod Blobs
pub mod Kept
pub mod KeptDates
pub mod CopiesKept
