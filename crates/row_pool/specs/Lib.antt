pub mod Pool
pub mod Layout
