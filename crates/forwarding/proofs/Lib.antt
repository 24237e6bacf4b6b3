pub mod Forward
pub mod Blocks
