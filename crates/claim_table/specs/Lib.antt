pub mod Sums
pub mod Rule
pub mod Steps
pub mod Held
pub mod Claims
pub mod Gathering
