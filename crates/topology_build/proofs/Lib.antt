pub mod Names
pub mod Counts
pub mod Numbers
pub mod Sounds
pub mod Meaning
