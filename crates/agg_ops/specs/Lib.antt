pub mod Groups
pub mod Totals
pub mod WindowAggs
pub mod WindowGroups
