pub mod Won
pub mod Ends
pub mod Narrowing
