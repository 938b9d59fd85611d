pub mod Counts
pub mod Lists
pub mod Rows
pub mod Tables
pub mod Texts
pub mod ListLaws
pub mod formers
