pub mod Decks
pub mod Numbers
pub mod Ranges
pub mod Written
pub mod Unread
