pub mod Base64Lines
pub mod QuotedSplits
pub mod QuotedLines
pub mod WordPieces
pub mod HeadFields
pub mod DateSteps
