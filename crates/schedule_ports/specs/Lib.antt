pub mod ScheduleCalls
pub mod ScheduleNumbers
pub mod ScheduleTurns
