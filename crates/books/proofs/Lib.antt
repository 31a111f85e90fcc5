pub mod Begun
pub mod Written
pub mod Back
