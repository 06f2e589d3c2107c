pub mod Guest
