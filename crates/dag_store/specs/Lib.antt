pub mod Store
pub mod Unfolding
pub mod StoreLaws
