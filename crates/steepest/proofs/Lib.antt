pub mod Above
pub mod Wins
pub mod Node
pub mod Mending
pub mod Root
pub mod Changed
pub mod Steepest
