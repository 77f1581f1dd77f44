pub mod FewCalls
pub mod Parsed
