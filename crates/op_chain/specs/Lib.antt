pub mod Along
pub mod Chain
pub mod Codes
