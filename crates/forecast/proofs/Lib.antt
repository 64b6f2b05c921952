pub mod TellingLine
