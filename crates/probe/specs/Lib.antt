pub mod Told
pub mod Probe
