pub mod Delivered
pub mod Accepted
pub mod Following
pub mod Planning
pub mod Promised
