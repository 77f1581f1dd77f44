pub mod accepted
pub mod forms
pub mod lists
pub mod parsed
pub mod some
pub mod sound
pub mod unique
