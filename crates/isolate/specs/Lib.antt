pub mod Examples
pub mod Fits
pub mod PlainFile
pub mod RunLaws
