pub mod MemberLaws
pub mod OwnLaws
pub mod OrderLaws
pub mod KindLaws
mod PieceLaws
mod FoundLaws
mod BroughtLaws
mod ReachLaws
