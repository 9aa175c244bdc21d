pub mod Found
pub mod Parts
pub mod Authors
mod Stay
pub mod PlainText
pub mod HeaderLines
