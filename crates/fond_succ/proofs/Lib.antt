mod Added
mod Alike
mod ActionTrees
mod Found
mod Named
mod Names
mod Places
pub mod Agrees
pub mod Atoms
pub mod Between
pub mod Bridges
pub mod Kept
pub mod Lists
pub mod Maps
pub mod Outcomes
pub mod Firsts
pub mod Plays
pub mod States
pub mod Texts
pub mod Traces
pub mod Truths
pub mod Values
pub mod Shown
pub mod Shortest
