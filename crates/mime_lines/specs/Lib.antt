pub mod Lines
pub mod Fields
pub mod FieldOffsets
pub mod FieldTexts
pub mod Written
pub mod Scan
