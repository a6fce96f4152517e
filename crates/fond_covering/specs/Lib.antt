pub mod Full
pub mod Coverings
