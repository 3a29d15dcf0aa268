pub mod Cutting
pub mod Tables
pub mod Programs
pub mod Refused
pub mod Parsed
pub mod Files
