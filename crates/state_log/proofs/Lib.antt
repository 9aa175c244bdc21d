pub mod Spanned
pub mod Named
pub mod Agreement
pub mod Kept
pub mod Placed
