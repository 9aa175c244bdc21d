mod Fresh
mod Sharing
