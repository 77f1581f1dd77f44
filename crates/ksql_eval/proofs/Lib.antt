pub mod Like
pub mod Loops
pub mod Texts
pub mod Values
