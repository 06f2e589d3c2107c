pub mod Reread
