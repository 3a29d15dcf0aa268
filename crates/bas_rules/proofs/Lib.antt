pub mod TextSteps
pub mod NameKeys
pub mod Profiles
pub mod EndLaws
pub mod StructureRows
