pub mod Cells
pub mod Printed
