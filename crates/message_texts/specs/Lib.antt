pub mod Texts
pub mod OpenedMessages
pub mod Plain
pub mod Scan
