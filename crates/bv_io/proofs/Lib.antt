mod FilesLemmas
mod MemShelfLemmas
mod Fieldless
pub mod Loops
pub mod ByteWrites
