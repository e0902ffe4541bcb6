pub mod First
pub mod Place
pub mod Cut
pub mod Bits
pub mod Ranges
pub mod Checks
pub mod Fine
pub mod Blocks
