pub mod Short
pub mod Fed
