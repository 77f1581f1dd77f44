pub mod Grouped
pub mod Same
