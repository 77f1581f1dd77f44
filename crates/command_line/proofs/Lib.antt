mod Accepting
mod Flags
mod Getters
mod Kept
pub mod Limits
mod Numbers
mod Shortness
mod Simple
mod Uses
mod Walks
