pub mod BlobIds
