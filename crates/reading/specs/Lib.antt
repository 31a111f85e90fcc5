pub mod Taking
pub mod Views
pub mod Books
