pub mod Refusals
pub mod Sound
pub mod Passed
pub mod Blocks
