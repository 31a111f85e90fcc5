pub mod Turns
pub mod Tries
pub mod Views
pub mod Sinks
pub mod Numberings
pub mod Common
mod Climbs
mod States
mod Attempts
mod Openings
mod Writings
