pub mod Digits
pub mod Order
pub mod Parts
pub mod Puts
pub mod Words
pub mod Zeros
