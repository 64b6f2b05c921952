-- What the tables of the core mean, when they are valid, what each call promises, and what is claimed of runs of calls and of
-- places where no packet waits.
pub mod Tables
pub mod Controls
pub mod Meaning
pub mod Invariant
pub mod Numbers
pub mod Promise
pub mod Counting
pub mod Run
pub mod RunSheets
pub mod CallsFrom
pub mod CodeStretch
pub mod Places
pub mod CodeCounts
pub mod Unused
pub mod Unseen
