pub mod Laws
pub mod Pages
