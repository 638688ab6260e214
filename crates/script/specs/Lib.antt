pub mod Script
pub mod Calls
