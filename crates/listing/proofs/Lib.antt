pub mod Examples
pub mod RowsLeft
