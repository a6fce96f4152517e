pub mod Appended
pub mod Certified
pub mod Exact
