pub mod Refusals
pub mod Asking
pub mod TermCommands
pub mod Singles
pub mod Items
pub mod Encodings
pub mod Texts
pub mod Laws
