pub mod Limits
pub mod MemoryMap
pub mod Bytes
pub mod Words
