pub mod Returns
pub mod Printed
