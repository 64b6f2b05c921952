-- The fair rates of S-8: the level, the rates at a level, and what is claimed of them.
pub mod Level
pub mod RatesAtLevel
pub mod Claims
pub mod Only
pub mod FairExamples
