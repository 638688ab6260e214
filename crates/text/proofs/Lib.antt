pub mod Digits
pub mod Found
