pub mod Found
pub mod Through
pub mod ThroughLines
pub mod ThroughCopies
pub mod LinesDone
pub mod Rooms
pub mod Grown
pub mod ReadSingly
