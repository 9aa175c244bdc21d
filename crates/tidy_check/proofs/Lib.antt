pub mod Tested
pub mod Climbing
pub mod Siblings
pub mod Passing
