pub mod Feeds
pub mod Fitting
