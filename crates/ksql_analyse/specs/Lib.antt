pub mod Accepted
pub mod Few
pub mod Judgement
pub mod Next
pub mod Plain
pub mod Readable
pub mod Typable
