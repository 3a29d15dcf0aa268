pub mod Records
mod Fronts
mod SoFar
mod Written
pub mod Decided
pub mod OneReading
