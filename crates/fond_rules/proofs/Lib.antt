pub mod First
pub mod Held
pub mod Grouped
pub mod SureTargets
pub mod Earlier
pub mod Literals
