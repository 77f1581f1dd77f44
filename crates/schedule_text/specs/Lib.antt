pub mod Lines
pub mod Words
pub mod Forms
pub mod Steps
pub mod Refusals
pub mod Standing
pub mod Schedules
