pub mod Answers
pub mod Begun
pub mod Fitting
pub mod Sides
