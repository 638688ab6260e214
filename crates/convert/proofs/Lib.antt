pub mod Turns
pub mod Loads
pub mod Told
