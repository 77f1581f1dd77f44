pub mod Feeding
pub mod Reaching
