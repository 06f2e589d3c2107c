pub mod Delivering
pub mod Folded
pub mod Ending
