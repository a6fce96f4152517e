pub mod Each
pub mod Drawn
