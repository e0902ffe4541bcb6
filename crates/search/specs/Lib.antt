pub mod Tabling
pub mod Gathering
pub mod Props
pub mod Searching
