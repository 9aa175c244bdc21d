pub mod Once
pub mod Outlasting
pub mod OneCall
