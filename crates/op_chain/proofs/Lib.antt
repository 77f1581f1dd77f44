pub mod Laws
pub mod Logs
pub mod Ops
pub mod RowSteps
