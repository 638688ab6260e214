pub mod Costs
pub mod Rounds
pub mod Same
