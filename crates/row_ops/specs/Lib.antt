pub mod InputTable
pub mod Keying
pub mod Kinds
