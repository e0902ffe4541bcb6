pub mod Slope
pub mod Tournament
pub mod Ways
