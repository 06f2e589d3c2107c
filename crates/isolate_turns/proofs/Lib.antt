pub mod Raised
pub mod Keeping
pub mod Commanded
pub mod CommandRuns
pub mod CommandLoops
pub mod Going
