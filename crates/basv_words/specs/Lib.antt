pub mod Given
pub mod Command
pub mod Taken
pub mod Reader
pub mod Meant
