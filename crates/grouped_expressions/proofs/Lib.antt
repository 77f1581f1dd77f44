pub mod Becoming
pub mod Equality
