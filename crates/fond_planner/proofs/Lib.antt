pub mod Walked
pub mod Barred
pub mod Right
pub mod Furthered
pub mod Waiting
pub mod Kept
