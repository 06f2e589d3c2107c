pub mod Rules
pub mod Raises
pub mod Machine
