pub mod Replaying
pub mod Fitting
pub mod StageNodes
pub mod SameContents
pub mod Showing
