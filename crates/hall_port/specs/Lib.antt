pub mod Views
pub mod Steps
pub mod Asking
pub mod Serving
pub mod Lines
pub mod SingleReads
