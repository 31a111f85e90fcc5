pub mod Notation
pub mod Examples
pub mod Commands
pub mod Writing
pub mod Laws
