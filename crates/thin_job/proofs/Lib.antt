pub mod Bits
pub mod Thinning
pub mod Unique
