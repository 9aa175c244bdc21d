pub mod CutFacts
pub mod ReadFacts
pub mod LineKindFacts
pub mod PlainLines
pub mod WrittenCuts
