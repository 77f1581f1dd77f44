pub mod Judged
pub mod Made
pub mod Possible
pub mod Standing
pub mod Typed
