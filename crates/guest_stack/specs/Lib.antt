pub mod Stack
pub mod GivingUp
pub mod Examples
pub mod Laws
