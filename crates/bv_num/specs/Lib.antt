pub mod Bits
pub mod Operation
pub mod Shift
pub mod Digits
pub mod Text
pub mod Value
