pub mod Language
pub mod Machine
