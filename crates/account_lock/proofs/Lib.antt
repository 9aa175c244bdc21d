pub mod Places
pub mod Entries
pub mod Turning
pub mod Naming
pub mod Joining
pub mod Closing
pub mod Diaries
pub mod Sending
