pub mod WindowKeys
pub mod IndexLemmas
pub mod Noting
pub mod Removals
pub mod Logs
pub mod ChangeLogs
pub mod HeldStarts
