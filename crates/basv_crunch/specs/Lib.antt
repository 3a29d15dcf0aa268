pub mod Pieces
pub mod Parts
pub mod Crunched
pub mod NormalForm
pub mod Adding
