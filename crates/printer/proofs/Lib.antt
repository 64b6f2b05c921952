pub mod Appending
pub mod Filling
pub mod FilledLength
pub mod LineRoom
