pub mod Decision
pub mod Bits
pub mod Given
pub mod Chain
pub mod Nodes
pub mod First
pub mod Cutting
pub mod Scanning
