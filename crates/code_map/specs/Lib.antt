pub mod Objects
pub mod Parts
pub mod CodeMap
pub mod Laws
