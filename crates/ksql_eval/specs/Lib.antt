pub mod Operand
pub mod View
