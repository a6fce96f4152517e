pub mod Listing
pub mod Literals
pub mod Remaining
