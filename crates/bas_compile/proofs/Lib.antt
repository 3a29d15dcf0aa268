-- The proofs of the compiler.
pub mod Composed
