pub mod Seeking
pub mod Auditing
