pub mod ListLemmas
pub mod LoadLemmas
pub mod OwnerLemmas
pub mod Counts
pub mod Shares
pub mod Whole
pub mod Keeping
pub mod OneAssignment
