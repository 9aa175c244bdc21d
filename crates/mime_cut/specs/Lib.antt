pub mod DelimiterLines
pub mod Cut
pub mod UpToDelimiter
pub mod Pieces
pub mod WrittenPieces
