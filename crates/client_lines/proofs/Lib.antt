pub mod Written
pub mod Printing
