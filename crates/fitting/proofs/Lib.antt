pub mod Growth
pub mod Walking
