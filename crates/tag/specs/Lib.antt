pub mod Tag
pub mod States
