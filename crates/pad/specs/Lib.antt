pub mod Pad
