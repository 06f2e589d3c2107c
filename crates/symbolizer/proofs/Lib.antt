pub mod Frames
pub mod Looked
pub mod Units
