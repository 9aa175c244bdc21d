mod Added
mod Sharing
