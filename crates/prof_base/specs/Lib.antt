pub mod Causes
pub mod Interval
pub mod Ordered
pub mod Prefix
pub mod Text
pub mod TextRefused
