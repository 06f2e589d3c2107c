mod Heads
mod Rings
mod Offered
mod Passed
mod Handed
mod Turned
mod Opened
pub mod Refusing
pub mod Finished
