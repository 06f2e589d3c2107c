pub mod Converted
pub mod Escapes
pub mod Given
pub mod IsFileText
pub mod ProfileText
pub mod Valid
