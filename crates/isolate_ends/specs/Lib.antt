pub mod Queues
pub mod Ports
pub mod Runs
pub mod Offered
pub mod RunLaws
