pub mod Tried
pub mod Forced
pub mod Firsts
