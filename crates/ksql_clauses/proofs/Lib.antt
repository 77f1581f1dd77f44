pub mod LeftNames
pub mod Naming
pub mod KeyColumns
