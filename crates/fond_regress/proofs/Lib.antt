pub mod Cubes
pub mod Lost
pub mod Hopeless
