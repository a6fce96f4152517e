pub mod Feeds
pub mod Lines
pub mod Parts
pub mod Forms
pub mod WordTests
pub mod Cutting
