pub mod Finding
pub mod Unique
