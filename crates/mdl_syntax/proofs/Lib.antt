pub mod PieceLaws
pub mod ModulePieces
pub mod TreeLaws
pub mod PlacedLaws
pub mod PlacedTwice
pub mod PlacedModuleLaws
pub mod PlacedModuleTwice
