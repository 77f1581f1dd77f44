pub mod Numbering
pub mod Piece
pub mod Place
pub mod Script
