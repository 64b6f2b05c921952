pub mod DemandWalk
pub mod RatesGiven
pub mod FairlyShared
