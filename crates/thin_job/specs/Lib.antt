pub mod ThinJob
pub mod Parts
