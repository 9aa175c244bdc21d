pub mod Naming
pub mod Rising
pub mod NewNumbers
pub mod Following
pub mod Rounding
pub mod Promising
