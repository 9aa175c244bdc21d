pub mod Tree
pub mod PartLimit
pub mod Budget
pub mod Places
pub mod Numbers
pub mod WrittenParts
pub mod Boundaries
