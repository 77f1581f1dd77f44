pub mod Options
pub mod Parts
pub mod Same
pub mod Words
