pub mod Positions
pub mod Reading
pub mod Stepping
pub mod GivingUp
pub mod GivenUpFrames
pub mod StackIsPlain
pub mod StackActs
