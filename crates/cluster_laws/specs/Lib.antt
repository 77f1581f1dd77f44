pub mod Moves
pub mod Progress
pub mod Rounds
pub mod Texts
pub mod Tasks
pub mod Feeding
pub mod Told
