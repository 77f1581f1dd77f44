pub mod Codes
pub mod Deciding
pub mod Mapped
pub mod Smallness
pub mod Within
