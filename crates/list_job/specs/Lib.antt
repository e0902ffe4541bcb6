pub mod ListJob
pub mod Listing
