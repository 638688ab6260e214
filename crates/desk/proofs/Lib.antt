pub mod Arrivals
pub mod Calls
pub mod Steps
