pub mod Accepted
pub mod Layered
