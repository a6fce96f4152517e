pub mod Nexts
pub mod Distinct
pub mod Stuck
pub mod Winning
pub mod Grown
pub mod Opened
pub mod Choosing
pub mod Runs
pub mod Wholes
pub mod Filed
mod Worked
