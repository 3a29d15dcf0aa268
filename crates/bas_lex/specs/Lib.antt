pub mod Bytes
pub mod Kinds
pub mod Cut
pub mod Scan
pub mod Next
