pub mod Tested
pub mod Words
pub mod Apart
pub mod Packs
pub mod Changed
