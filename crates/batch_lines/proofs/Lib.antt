pub mod Cuts
pub mod Uploads
pub mod Held
pub mod Replies
pub mod Runs
