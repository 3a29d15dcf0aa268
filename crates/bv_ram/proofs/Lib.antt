mod Sharing
mod Shown
mod Values
mod Generic
mod Bytes
