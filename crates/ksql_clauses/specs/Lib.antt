pub mod Items
pub mod Keys
pub mod Properties
pub mod Sought
pub mod Sources
pub mod Windows
