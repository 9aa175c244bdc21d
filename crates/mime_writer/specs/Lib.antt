pub mod QuotedBytes
pub mod WordStarts
pub mod Pieces
pub mod Heads
pub mod DateTimes
pub mod Leads
