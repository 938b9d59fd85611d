pub mod Languages
pub mod Opens
pub mod Faults
pub mod Readings
pub mod inside
pub mod Answers
