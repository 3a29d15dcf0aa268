-- What the programs of this crate do on the board.
pub mod Moves
pub mod Shows
