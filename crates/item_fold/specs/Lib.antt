pub mod Delivered
pub mod Folding
