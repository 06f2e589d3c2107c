pub mod Node
pub mod Arena
pub mod Linked
pub mod Children
pub mod Walk
pub mod Grown
