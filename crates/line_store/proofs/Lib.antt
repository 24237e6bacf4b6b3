pub mod Held
pub mod Renewed
pub mod Batch
