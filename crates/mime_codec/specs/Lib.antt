pub mod Quoted
pub mod Escapes
pub mod Base64
pub mod Base64Text
pub mod QuotedText
pub mod WaitingLetters
pub mod Decoded
