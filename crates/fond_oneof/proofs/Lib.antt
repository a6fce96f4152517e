pub mod Counted
pub mod Ended
pub mod Forms
pub mod Lists
pub mod Meanings
