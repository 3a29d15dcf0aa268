-- The laws of words and instructions.
pub mod FieldLemmas
pub mod Rotations
pub mod ClassBits
pub mod Laws
pub mod RoundTrip
pub mod ValidLaws
pub mod ValidTest
mod Sums
pub mod ImmediateLaws
pub mod ShiftFields
pub mod InstructionWords
mod Examples
