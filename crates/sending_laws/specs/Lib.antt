pub mod Chain
pub mod Sent
