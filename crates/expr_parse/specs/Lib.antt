pub mod Parse
pub mod Operands
pub mod Longest
pub mod Prefixes
pub mod Reads
pub mod Nests
pub mod Parsed
pub mod Terminals
