pub mod Reached
pub mod Unfits
