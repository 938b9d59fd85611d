pub mod Types
pub mod Texts
pub mod Same
pub mod Terms
pub mod Postorder
pub mod TermLaws
