pub mod Functions
pub mod Resolved
pub mod Scope
pub mod Senses
pub mod Uses
