pub mod Operands
pub mod SizedOperands
