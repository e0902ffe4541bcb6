pub mod Writing
pub mod Going
pub mod Listing
