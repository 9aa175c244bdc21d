pub mod Views
pub mod Blobs
pub mod Authors
