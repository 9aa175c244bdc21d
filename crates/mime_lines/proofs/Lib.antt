pub mod LineFacts
pub mod ScanFacts
pub mod SpanFacts
pub mod ReadFacts
pub mod Feeds
pub mod WrittenFields
pub mod Unfolds
pub mod FoldedTexts
