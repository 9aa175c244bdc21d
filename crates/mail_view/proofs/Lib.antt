pub mod TreeFacts
pub mod Staying
pub mod AtStates
pub mod ClientGets
pub mod Members
pub mod Formed
