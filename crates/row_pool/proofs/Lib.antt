pub mod Links
pub mod Sums
pub mod Written
pub mod Shares
pub mod Steps
