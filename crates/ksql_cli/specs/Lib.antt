pub mod Command
pub mod Fault
pub mod Ran
pub mod Run
pub mod Stages
pub mod Status
pub mod Steps
