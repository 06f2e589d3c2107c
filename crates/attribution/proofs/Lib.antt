pub mod Without
pub mod Courses
pub mod LegalNext
pub mod FinishedFiles
pub mod Taking
pub mod Stopping
pub mod Running
