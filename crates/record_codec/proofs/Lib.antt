pub mod Passing
pub mod Parsers
pub mod Given
pub mod Readers
pub mod Parts
