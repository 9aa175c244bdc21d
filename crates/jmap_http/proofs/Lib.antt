pub mod FirstByte
pub mod Answered
pub mod Exchanges
pub mod Nexts
pub mod Sent
