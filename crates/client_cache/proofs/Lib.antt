pub mod AskedIds
pub mod Objects
pub mod ReadBack
pub mod Kept
pub mod Listed
pub mod Counts
pub mod Answered
