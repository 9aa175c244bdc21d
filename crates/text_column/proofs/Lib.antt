pub mod Ends
pub mod Places
pub mod Pushed
pub mod Marked
