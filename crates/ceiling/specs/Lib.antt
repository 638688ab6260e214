pub mod Prices
pub mod Views
