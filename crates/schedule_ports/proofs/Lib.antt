pub mod Numbers
pub mod Places
pub mod Calls
pub mod Next
pub mod Phases
pub mod Ends
pub mod Acts
pub mod Turned
