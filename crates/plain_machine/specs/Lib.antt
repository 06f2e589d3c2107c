pub mod PlainMachine
pub mod PlainFrames
pub mod Examples
pub mod Laws
