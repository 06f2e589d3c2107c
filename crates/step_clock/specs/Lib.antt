pub mod StepClock
pub mod ClockLaws
pub mod ClockCalls
pub mod ClockTurns
