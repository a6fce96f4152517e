pub mod Drawings
pub mod Parts
