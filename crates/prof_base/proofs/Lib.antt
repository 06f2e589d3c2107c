pub mod Intervals
pub mod Ordered
pub mod Texts
