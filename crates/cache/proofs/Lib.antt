pub mod Owners
pub mod Laws
pub mod Levels
