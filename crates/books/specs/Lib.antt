pub mod Begins
pub mod Writing
pub mod Laws
