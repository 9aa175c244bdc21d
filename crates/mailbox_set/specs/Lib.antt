pub mod Destroys
pub mod Sets
pub mod Views
