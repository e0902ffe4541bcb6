pub mod Window
pub mod Packed
pub mod Filled
