pub mod Attribution
pub mod ItemLaws
