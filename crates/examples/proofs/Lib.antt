pub mod Truth
pub mod Members
pub mod Choices
pub mod Trying
pub mod Sums
pub mod Finding
pub mod Stops
pub mod Starred
