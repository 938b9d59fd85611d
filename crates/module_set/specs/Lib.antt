pub mod Names
pub mod Imports
pub mod Cycles
pub mod Members
pub mod ModuleSets
pub mod NameLaws
