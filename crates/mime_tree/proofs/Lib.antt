pub mod TakenFacts
pub mod HeadFacts
pub mod SliceFacts
pub mod WalkFacts
pub mod WrittenTrees
pub mod KnownLines
pub mod WrittenBoundaries
