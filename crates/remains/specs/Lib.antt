-- Long runs on tables with remains (docs/LONG_RUNS.md, "On remains"): where no packet waits and what is written there, and
-- where such a run starts.
pub mod Remains
pub mod Started
