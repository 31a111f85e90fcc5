pub mod Rows
pub mod Remaining
pub mod Moves
pub mod Tests
pub mod Lines
pub mod Dues
pub mod Slips
pub mod Copies
