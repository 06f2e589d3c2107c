pub mod EntriesSoFar
pub mod FileOrder
pub mod ItemsSoFar
pub mod Laws
pub mod Raised
