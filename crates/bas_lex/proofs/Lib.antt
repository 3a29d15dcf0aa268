mod Runs
mod Names
mod Numbers
mod Texts
mod Signs
mod Fronts
mod Tokens
mod Classes
pub mod Pieces
pub mod Cuts
pub mod Order
pub mod OneKind
pub mod Unique
pub mod Decided
pub mod Spelled
