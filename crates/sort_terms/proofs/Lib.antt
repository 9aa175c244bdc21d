pub mod Total
pub mod Alone
