pub mod Named
pub mod Names
pub mod References
pub mod Search
pub mod Tokens
pub mod Words
