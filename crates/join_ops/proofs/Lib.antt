pub mod Fresh
pub mod Sides
pub mod Stream
pub mod TwoTables
