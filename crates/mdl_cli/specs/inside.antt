pub mod Delivery
pub mod Gives
pub mod GraphLines
pub mod Reading
pub mod Rows
pub mod Trees
pub mod Views
