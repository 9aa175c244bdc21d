pub mod Lines
pub mod Uploads
pub mod Replies
pub mod Pieces
pub mod Input
pub mod Faults
