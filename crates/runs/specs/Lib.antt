-- Long runs (docs/LONG_RUNS.md): the calls that a seed makes, the check of their answers, and the run of both; and what the
-- code keeps of it.
pub mod Calls
pub mod Check
pub mod Advance
pub mod LongRun
pub mod Stands
