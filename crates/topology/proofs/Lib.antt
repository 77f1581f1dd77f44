pub mod Depths
pub mod Numbered
pub mod Ascent
pub mod WorkedRows
