pub mod EntriesMore
pub mod FileOrder
pub mod Going
