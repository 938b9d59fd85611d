pub mod inside
pub mod Answers
