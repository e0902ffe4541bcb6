pub mod Accepted
pub mod Price
pub mod Best
