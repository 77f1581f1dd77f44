pub mod Filtered
pub mod Modest
