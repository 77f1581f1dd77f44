pub mod DeclaredChanges
pub mod QuerySteps
