pub mod Examples
pub mod Schedule
pub mod ScheduleParts
pub mod Source
