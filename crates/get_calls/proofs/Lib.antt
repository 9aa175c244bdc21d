pub mod FirstMentions
pub mod HiddenMembers
pub mod Named
pub mod Answered
pub mod Parsed
