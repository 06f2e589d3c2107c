pub mod Layouts
pub mod Sizes
pub mod Laws
pub mod Examples
pub mod Places
