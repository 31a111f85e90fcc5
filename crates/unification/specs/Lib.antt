pub mod Variables
pub mod Ground
pub mod Substitutions
pub mod Unification
pub mod Laws
pub mod Examples
