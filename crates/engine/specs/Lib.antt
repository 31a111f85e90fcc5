pub mod Models
pub mod Turns
pub mod Slots
pub mod Promise
