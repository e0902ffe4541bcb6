pub mod Unique
pub mod Winning
pub mod Setting
pub mod Fitting
