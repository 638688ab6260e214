pub mod Transcoded
