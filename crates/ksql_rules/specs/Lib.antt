pub mod Bodies
pub mod Breaks
pub mod Decided
pub mod Findings
pub mod Limits
pub mod Lowest
pub mod Verdicts
