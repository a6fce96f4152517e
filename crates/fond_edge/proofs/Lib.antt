pub mod Progress
pub mod Puts
pub mod Reading
