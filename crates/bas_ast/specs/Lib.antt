pub mod Words
pub mod Expressions
pub mod Operands
pub mod Statements
pub mod Lines
pub mod Structures
pub mod WellFormed
