pub mod Arguments
pub mod Carried
pub mod Copies
pub mod Plans
pub mod Views
