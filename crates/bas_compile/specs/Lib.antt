-- The definitions of the compiler.
pub mod Correct
