pub mod Stack
pub mod Machine
pub mod Writes
pub mod Quick
pub mod Runs
pub mod Steps
pub mod Loops
