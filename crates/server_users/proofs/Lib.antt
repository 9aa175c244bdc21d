pub mod Walks
pub mod Numbered
