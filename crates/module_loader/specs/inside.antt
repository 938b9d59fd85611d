pub mod Contents
pub mod Locating
pub mod Texts
pub mod Loading
pub mod Importing
pub mod Linking
pub mod Distances
pub mod Numbers
