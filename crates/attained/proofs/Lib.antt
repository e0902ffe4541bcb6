pub mod Winning
pub mod Uncodable
pub mod Chosen
