pub mod Cluster
pub mod Sourcing
