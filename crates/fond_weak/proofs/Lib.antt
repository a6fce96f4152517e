pub mod Closed
pub mod Found
pub mod Full
pub mod Lists
pub mod Lost
pub mod Pairs
