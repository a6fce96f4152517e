pub mod Answers
pub mod Spaces
pub mod Openings
pub mod Strata
pub mod Runs
pub mod Filings
pub mod Wholes
