pub mod Behind
pub mod OneItem
pub mod Unique
