pub mod Appended
pub mod Called
pub mod Calls
pub mod Gives
