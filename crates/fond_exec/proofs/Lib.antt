pub mod Chosen
pub mod Descent
pub mod Traced
pub mod Left
pub mod Numbers
pub mod Weighed
pub mod Duelling
