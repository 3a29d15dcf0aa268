pub mod Cells
pub mod Stored
pub mod Store
pub mod Opened
pub mod Entries
