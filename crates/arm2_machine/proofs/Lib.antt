pub mod Memory
pub mod Images
mod Outputs
pub mod StepLaws
mod Stretches
mod Logs
