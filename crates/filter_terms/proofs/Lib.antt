pub mod Matched
pub mod Alone
pub mod Lists
pub mod ThreadEntries
pub mod MailboxIds
pub mod Lowered
pub mod Operators
pub mod FieldTests
pub mod Certain
pub mod Places
mod Required
pub mod FirstByte
mod LastByte
mod OwnTexts
