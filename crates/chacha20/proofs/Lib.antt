pub mod Rounds
pub mod Sizes
