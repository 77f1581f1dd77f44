pub mod Texts
pub mod ShortValues
pub mod WindowSpans
pub mod ShortChanges
