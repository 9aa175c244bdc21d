pub mod Charsets
pub mod Words
pub mod WrittenWords
pub mod Views
