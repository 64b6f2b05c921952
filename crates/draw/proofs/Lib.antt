pub mod Samples
pub mod EqualWeights
