pub mod ImportStepLaws
pub mod EndLaws
pub mod SiteStepLaws
pub mod ItemStepLaws
pub mod ModuleParseLaws
pub mod ModuleAnswerLaws
pub mod ReaderLaws
