-- The definitions of fragments: the routine language, what a routine owes, rows of steps, and words.
pub mod Places
pub mod Regions
pub mod Language
pub mod Instructions
pub mod Demands
pub mod Turns
pub mod Unnamed
pub mod Rows
pub mod Runs
pub mod Within
pub mod Words
pub mod Laws
