pub mod Written
pub mod Walking
