pub mod Equations
pub mod TableSteps
pub mod EndTables
pub mod CaseSteps
mod Bind
pub mod Denote
mod Fusing
mod FusedDenotes
mod FusedSteps
pub mod ItemDenotes
pub mod Joined
pub mod Spots
pub mod StepDenotes
pub mod Sufficiency
pub mod Bounds
pub mod Equality
pub mod Agreement
pub mod Weights
mod Reaching
mod LaidOut
mod InItems
mod Residents
pub mod Coded
mod Fits
mod PendingBounds
mod FusedFits
mod FitCases
mod FitExpressions
mod FitStatements
mod FitLines
mod CodeWellFormed
mod CallExamples
