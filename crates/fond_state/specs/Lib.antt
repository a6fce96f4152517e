pub mod Cubes
pub mod Words
pub mod Hashed
pub mod Games
pub mod Traces
