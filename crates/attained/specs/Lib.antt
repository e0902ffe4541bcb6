pub mod Attained
pub mod Uncodable
pub mod Chosen
