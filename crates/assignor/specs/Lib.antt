pub mod Rule
pub mod Loads
pub mod Laws
