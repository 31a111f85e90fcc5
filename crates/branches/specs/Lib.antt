pub mod Rows
pub mod Clauses
pub mod Branches
pub mod Tests
pub mod Moves
pub mod Copies
