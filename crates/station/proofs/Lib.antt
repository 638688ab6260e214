pub mod Units
pub mod Numbers
pub mod Replies
pub mod Loads
pub mod Questions
