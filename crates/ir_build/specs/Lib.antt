pub mod Fused
pub mod Code
pub mod Weight
pub mod Tables
pub mod Ends
pub mod Branches
