pub mod Options
pub mod Roots
pub mod Names
pub mod Reading
pub mod Views
