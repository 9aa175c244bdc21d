pub mod Threads
pub mod Related
pub mod Candidates
