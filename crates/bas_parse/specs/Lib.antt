pub mod Operands
pub mod Statements
pub mod Words
pub mod Steps
pub mod Runs
pub mod Parsed
