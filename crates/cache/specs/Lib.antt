pub mod Cache
pub mod Fits
