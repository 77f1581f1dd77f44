pub mod Aggregates
pub mod Rules
pub mod Typing
pub mod Value
