pub mod Spelled
pub mod Reread
