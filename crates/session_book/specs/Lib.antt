pub mod Begun
pub mod Counter
pub mod Sampled
pub mod Session
pub mod Book
pub mod Refused
pub mod Laws
