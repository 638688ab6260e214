pub mod Parts
mod Found
mod Digits
pub mod Lines
mod Passed
mod Taken
mod Fields
mod Held
pub mod Ranged
pub mod Loads
mod Short
mod Written
mod Shown
pub mod Places
pub mod Fronts
mod Printed
mod Told
mod Lined
mod Unmarked
mod Spelt
mod PrintedLines
mod ReadBack
pub mod Lengths
pub mod Longest
pub mod Unread
mod Complained
pub mod Trips
mod Outside
mod Walked
