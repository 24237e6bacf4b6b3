pub mod Steps
pub mod Rule
