pub mod Fresh
pub mod Turning
pub mod Stored
