-- The laws of registers, flags, shifts and operations.
mod ShiftLaws
mod OperandLaws
pub mod RegisterLaws
pub mod ShiftValues
pub mod ValueLaws
pub mod SignedLaws
pub mod ConditionLaws
mod HoldingLaws
