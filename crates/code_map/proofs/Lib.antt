pub mod AfterEvents
pub mod CodeStays
pub mod FoundCode
pub mod Histories
pub mod LatestReason
pub mod OnOk
pub mod Starts
