pub mod Texts
pub mod Progress
pub mod Verdicts
