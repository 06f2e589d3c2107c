pub mod Moments
pub mod Sums
pub mod Listed
pub mod TextParts
