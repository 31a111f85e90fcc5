pub mod Changes
pub mod Laid
mod WasRead
