pub mod Piled
mod Opened
pub mod Shelved
pub mod Copied
