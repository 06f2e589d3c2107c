pub mod CodeObjects
pub mod Changes
pub mod Laws
pub mod Objects
