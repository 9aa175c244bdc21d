pub mod Method
pub mod Request
pub mod Prepared
pub mod Answer
pub mod Outcome
pub mod Answered
pub mod OneCall
