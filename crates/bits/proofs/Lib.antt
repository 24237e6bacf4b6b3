pub mod Climbs
pub mod Laws
pub mod Shifts
