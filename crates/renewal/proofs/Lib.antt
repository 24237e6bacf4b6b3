pub mod Tagging
pub mod Renewing
