pub mod Properties
pub mod Imports
pub mod Arguments
pub mod Plans
pub mod Views
