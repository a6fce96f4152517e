pub mod Targets
pub mod Plans
pub mod Places
pub mod Barring
pub mod Drafts
pub mod Appends
pub mod Learning
pub mod Turns
