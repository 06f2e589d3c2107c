pub mod Ready
pub mod Lending
pub mod Kept
