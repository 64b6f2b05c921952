-- How the promises of the calls are met, over the lists that the tables hold.
pub mod Promises
pub mod Countings
pub mod Checkings
pub mod MarkedKinds
pub mod ActiveChecks
pub mod Fields
pub mod QueueRing
pub mod Touch
pub mod PoolWritten
pub mod DefinedCalls
pub mod Runs
pub mod RunCounts
pub mod SheetsOfRuns
pub mod CodeStretches
pub mod StandingPlaces
pub mod UnusedPlaces
