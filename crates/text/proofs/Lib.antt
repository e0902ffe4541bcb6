pub mod Number
pub mod Pieces
pub mod Example
