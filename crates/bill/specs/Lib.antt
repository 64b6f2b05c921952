pub mod Billed
