pub mod Compacted
pub mod Freeing
pub mod Inserting
pub mod LeastFit
pub mod Moves
pub mod Owners
pub mod Sliding
