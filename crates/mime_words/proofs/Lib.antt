pub mod Shapes
pub mod Cuts
pub mod Bytes
pub mod Signs
pub mod WordBytes
pub mod WordTexts
pub mod WordsBack
