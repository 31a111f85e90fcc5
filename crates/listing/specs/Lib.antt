pub mod Limits
pub mod Listings
pub mod Left
pub mod Refusals
pub mod Printed
pub mod Examples
