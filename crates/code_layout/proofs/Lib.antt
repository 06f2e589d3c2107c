pub mod Standing
pub mod Expanding
pub mod Counting
pub mod Rules
pub mod SizeTable
pub mod Steps
pub mod Places
pub mod Calling
