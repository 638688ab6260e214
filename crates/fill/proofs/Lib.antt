pub mod Front
pub mod Leaders
pub mod Tables
pub mod Shares
