-- Long runs with a greedy client (docs/LONG_RUNS.md, "With a greedy client"): the call of each phase and the counts after it,
-- the run of both, and what the code keeps of it.
pub mod Phases
pub mod GreedyRun
pub mod Stands
