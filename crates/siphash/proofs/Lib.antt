pub mod Messages
pub mod Ranges
