pub mod Decided
pub mod SomeItem
pub mod SomeJudgement
pub mod SomeShape
pub mod SomeTrees
