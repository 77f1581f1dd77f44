pub mod Runs
pub mod Doubled
pub mod Classes
pub mod Cuts
pub mod Signs
pub mod Places
pub mod Readings
pub mod Steps
