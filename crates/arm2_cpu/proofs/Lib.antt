-- The laws of one instruction.
mod ProductLaws
pub mod BranchLaws
mod MemoryReads
pub mod MemoryLaws
mod BlockLaws
mod BlockLoops
pub mod StepBasics
pub mod StepLaws
pub mod TransferLaws
pub mod TrapLaws
mod Examples
pub mod MemoryFunctions
