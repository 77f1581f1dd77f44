pub mod Stages
pub mod Topologies
pub mod Contents
pub mod Tasks
