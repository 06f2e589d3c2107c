pub mod Answered
pub mod Queued
pub mod Following
