pub mod Remembering
pub mod Seeking
pub mod Knowing
