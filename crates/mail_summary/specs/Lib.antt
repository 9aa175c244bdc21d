pub mod Leaves
pub mod Texts
pub mod Subjects
pub mod Links
pub mod Received
pub mod Summaries
pub mod Views
