pub mod Demos
pub mod Words
