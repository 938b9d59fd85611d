pub mod Runs
pub mod ModuleViews
pub mod Ends
