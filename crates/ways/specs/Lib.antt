pub mod Known
pub mod Looking
