pub mod Properties
pub mod Comparators
pub mod Forms
pub mod Orders
pub mod Views
pub mod Laws
