mod Groups
mod Lanes
