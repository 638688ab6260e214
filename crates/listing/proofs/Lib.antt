pub mod Pieces
pub mod Lines
pub mod Lengths
pub mod Card
