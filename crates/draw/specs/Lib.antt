pub mod Samples
pub mod Weights
