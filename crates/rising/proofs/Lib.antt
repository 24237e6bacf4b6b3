pub mod Laws
pub mod Occurrences
pub mod Sequences
