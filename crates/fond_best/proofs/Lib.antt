pub mod Beyond
pub mod Nearest
pub mod Best
pub mod Verdicts
