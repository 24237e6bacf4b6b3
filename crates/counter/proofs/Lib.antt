mod Fields
pub mod Laws
