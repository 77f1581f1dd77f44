pub mod Columns
pub mod Joining
pub mod Members
