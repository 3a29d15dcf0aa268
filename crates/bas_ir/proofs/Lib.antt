pub mod EffectHeights
pub mod StepPairs
pub mod LongerRuns
mod Handled
