pub mod Terms
pub mod Bytes
