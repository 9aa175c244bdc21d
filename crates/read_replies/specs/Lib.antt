pub mod Plans
pub mod Reads
pub mod Targets
pub mod Replies
