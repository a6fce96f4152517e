pub mod Outcomes
pub mod Counts
pub mod Within
pub mod Shown
