pub mod Ascending
pub mod Merge
pub mod Order
pub mod Said
pub mod Routing
pub mod Path
