pub mod stations
pub mod desks
