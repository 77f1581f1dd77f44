pub mod Cuts
pub mod Lists
pub mod Merging
pub mod Stepping
pub mod Takes
pub mod Underway
