pub mod Sides
pub mod Tasks
