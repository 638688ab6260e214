pub mod Rows
pub mod Parts
pub mod Districts
pub mod BlockRanges
