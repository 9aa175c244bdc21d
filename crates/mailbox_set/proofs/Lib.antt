pub mod Removing
pub mod EmailsLeft
pub mod Ordered
pub mod Tracking
pub mod Leading
