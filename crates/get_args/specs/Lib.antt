pub mod Views
pub mod PropertyNames
pub mod Selection
pub mod Wanted
pub mod Faults
pub mod NameHalves
