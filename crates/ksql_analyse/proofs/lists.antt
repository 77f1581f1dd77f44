pub mod Appended
pub mod Distinct
pub mod EqualLists
pub mod Moving
pub mod Pushing
