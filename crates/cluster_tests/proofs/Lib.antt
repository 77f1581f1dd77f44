pub mod Filing
pub mod Numbering
pub mod Shown
