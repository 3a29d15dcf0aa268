pub mod OperationLaws
mod Operations
mod ShiftLemmas
pub mod Numerals
mod DigitLoop
mod Fronts
pub mod ReadingBack
