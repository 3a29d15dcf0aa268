pub mod Operations
pub mod StandsFor
pub mod Outcomes
pub mod Program
pub mod Fitting
pub mod Agrees
pub mod Emission
pub mod Placing
