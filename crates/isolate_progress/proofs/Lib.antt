pub mod Entered
pub mod Holding
pub mod SourceTaken
