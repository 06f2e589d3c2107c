pub mod Appends
pub mod Joined
pub mod Nodes
pub mod PathOrder
pub mod Profiles
pub mod Sums
pub mod TreeParts
pub mod UnitsAbove
