pub mod Grammar
pub mod Limits
pub mod Queries
pub mod Script
pub mod Settled
pub mod Statements
pub mod Words
