pub mod Identifiers
pub mod Requests
pub mod OneRequest
pub mod inside
