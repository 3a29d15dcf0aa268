mod Examples
pub mod Longer
pub mod LoopPairs
pub mod DataPairs
pub mod ItemPairs
pub mod CallPairs
pub mod Runs
