pub mod Becoming
pub mod Equality
pub mod Folds
pub mod Forms
pub mod Passing
pub mod Unchanged
pub mod Words
