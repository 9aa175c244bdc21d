pub mod Fetches
pub mod Copied
pub mod Originals
pub mod BlobCopies
pub mod Views
