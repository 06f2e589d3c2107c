pub mod Program
pub mod InlinedSize
