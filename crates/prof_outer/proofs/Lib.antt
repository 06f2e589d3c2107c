pub mod Finding
pub mod Naming
pub mod Prefixes
pub mod Removing
