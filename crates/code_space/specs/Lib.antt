pub mod Space
pub mod Compaction
pub mod Laws
