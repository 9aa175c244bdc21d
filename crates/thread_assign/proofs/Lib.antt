pub mod Found
pub mod Entries
pub mod Links
pub mod Lesser
pub mod Related
