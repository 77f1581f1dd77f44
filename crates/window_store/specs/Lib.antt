pub mod Windows
pub mod Starts
