pub mod ChaCha20
pub mod Rows
