pub mod inside
pub mod ModuleFaults
pub mod ModuleReadings
