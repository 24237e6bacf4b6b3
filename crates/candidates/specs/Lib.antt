pub mod Candidates
pub mod Hashed
