pub mod Again
pub mod Each
pub mod Kept
pub mod Laws
pub mod Queue
pub mod Several
pub mod Steps
pub mod Turns
