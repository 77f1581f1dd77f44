pub mod Advancing
pub mod Codes
pub mod Core
pub mod Readers
pub mod Reading
pub mod Tasks
