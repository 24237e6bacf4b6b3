pub mod Blank
pub mod Examples
pub mod Run
pub mod Sparse
