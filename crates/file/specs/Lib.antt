pub mod Forms
pub mod Trips
