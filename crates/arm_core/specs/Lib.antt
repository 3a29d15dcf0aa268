-- The definitions of one instruction in supervisor mode on a core: registers and memory as functions.
pub mod Core
pub mod Effects
pub mod Made
