pub mod Entries
pub mod EntriesRaised
pub mod Files
pub mod FilesRaised
pub mod Items
pub mod Sessions
pub mod StepsRaised
