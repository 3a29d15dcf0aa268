pub mod Names
pub mod Texts
pub mod Profile
pub mod Ends
pub mod Structures
