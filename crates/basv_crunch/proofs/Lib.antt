mod Rows
mod FirstParts
mod Bodies
mod PieceLines
mod LineEnds
mod Texts
mod LineBytes
mod Numbers
mod Shown
mod ListedParts
mod SourceBytes
mod Again
mod Theorem
pub mod OneAnswer
mod WorkedRows
