pub mod Zeros
pub mod Words
pub mod Lists
pub mod Computed
