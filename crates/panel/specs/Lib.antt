pub mod Console
pub mod Lines
