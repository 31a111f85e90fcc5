mod Fronts
pub mod Passing
pub mod Parts
mod Under
mod Alone
mod Numbered
pub mod Sizes
pub mod Whole
