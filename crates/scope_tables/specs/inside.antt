pub mod Kinds
pub mod Order
pub mod Ordering
pub mod Pieces
pub mod Owning
pub mod Reaching
pub mod Finding
pub mod Typing
