pub mod Nonce
pub mod Rows
pub mod Xor
