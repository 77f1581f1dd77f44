pub mod Decisions
pub mod Sets
