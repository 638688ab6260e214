pub mod Kept
pub mod Lending
pub mod Questions
