pub mod Won
pub mod Brackets
