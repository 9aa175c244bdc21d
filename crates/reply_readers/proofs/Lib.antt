pub mod EachOnce
pub mod Formed
pub mod LeftRecords
pub mod ReadBacks
pub mod ReadLists
