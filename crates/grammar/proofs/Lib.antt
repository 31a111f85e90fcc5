pub mod Taking
pub mod Counting
pub mod Encoded
pub mod Framed
pub mod Alone
pub mod Rows
pub mod Places
pub mod Fitting
