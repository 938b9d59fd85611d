pub mod Entities
pub mod PreludeEntities
pub mod Brought
pub mod Visible
pub mod Types
pub mod inside
