pub mod Text
pub mod Errors
pub mod Output
