pub mod Places
pub mod Effects
pub mod Machine
pub mod Heights
pub mod WellFormed
pub mod Coded
