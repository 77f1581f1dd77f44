pub mod Grouping
pub mod Plain
pub mod Sections
pub mod Steps
pub mod Windowless
