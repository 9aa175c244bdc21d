pub mod Added
pub mod Arguments
pub mod Ids
pub mod Outcomes
pub mod Places
pub mod ReadValues
pub mod Wrapped
pub mod WrittenIds
