pub mod Deltas
pub mod Members
pub mod Objects
pub mod ObjectsBack
pub mod Pages
pub mod ReadBack
pub mod Results
