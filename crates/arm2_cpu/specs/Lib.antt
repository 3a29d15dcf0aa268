-- The definitions of one instruction: the memory, its outcomes, the classes, and the step.
pub mod Memory
pub mod Outcomes
pub mod Data
pub mod Multiply
pub mod Branch
pub mod Access
pub mod Single
pub mod Block
pub mod Unpredictable
pub mod Step
