pub mod Explained
pub mod Flat
pub mod Judged
pub mod Ordered
pub mod Listing
pub mod Told
