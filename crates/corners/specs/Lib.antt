pub mod Pair
pub mod Price
pub mod Still
pub mod Corner
pub mod Listed
pub mod Fits
pub mod Merging
