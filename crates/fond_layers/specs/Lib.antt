pub mod Over
pub mod Leads
pub mod Deads
pub mod Faults
pub mod Far
