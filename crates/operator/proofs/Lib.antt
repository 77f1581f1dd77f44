pub mod Fresh
pub mod Numbered
pub mod Rows
pub mod SameKeys
