pub mod Taking
pub mod Writing
pub mod Shown
pub mod Examples
