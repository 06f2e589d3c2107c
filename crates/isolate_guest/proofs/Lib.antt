pub mod OfCode
pub mod Moments
