pub mod Numbers
mod Outcomes
mod Folds
mod Lines
mod TicksAndEvents
mod Endings
mod Handed
mod Puts
mod Saying
mod Named
mod Ends
mod Runs
mod Completing
