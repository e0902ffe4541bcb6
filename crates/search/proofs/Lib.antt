pub mod Tabling
pub mod Reading
pub mod Placing
pub mod Weighing
pub mod Holding
