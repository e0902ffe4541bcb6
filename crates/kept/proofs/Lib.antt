pub mod Ones
