pub mod Adding
pub mod Winning
pub mod Storing
pub mod Told
pub mod Lent
pub mod Sums
