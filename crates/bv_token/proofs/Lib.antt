pub mod Candidates
mod CountedWords
pub mod References
pub mod Tables
