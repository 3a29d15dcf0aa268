pub mod Turns
pub mod Fronts
pub mod Sound
pub mod GoingOn
pub mod Equations
pub mod Complete
pub mod LongestFront
