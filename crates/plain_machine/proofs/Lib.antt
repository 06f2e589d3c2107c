pub mod Deopts
pub mod Ends
mod Kept
pub mod InBody
mod Registers
pub mod Reasons
