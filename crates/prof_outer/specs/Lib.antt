pub mod Appends
pub mod FailingPuts
pub mod FileName
pub mod Files
pub mod Puts
pub mod Stored
