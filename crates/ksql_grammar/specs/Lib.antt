pub mod Symbols
pub mod Grammar
pub mod Reading
pub mod Expressions
pub mod Nests
