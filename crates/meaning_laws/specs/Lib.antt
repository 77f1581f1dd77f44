pub mod Bounds
pub mod Places
pub mod Prefixes
pub mod Tables
