pub mod Tables
pub mod Counts
