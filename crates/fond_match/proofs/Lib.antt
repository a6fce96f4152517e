pub mod Members
pub mod Found
pub mod Searched
pub mod Kept
pub mod Joined
pub mod Growing
