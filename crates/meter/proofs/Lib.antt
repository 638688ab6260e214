pub mod Values
pub mod Exact
pub mod Whole
pub mod Bits
pub mod Readings
pub mod Windows
pub mod Points
