-- The definitions of what the ARM2 computes with: registers, conditions, shifts, operations, operands, results.
pub mod Registers
pub mod Conditions
pub mod Shifts
pub mod Operations
pub mod Operands
pub mod Results
