-- Laws of the definitions, each stated once, which the proofs above them cite.
pub mod Tests
pub mod Checked
pub mod Kinds
pub mod Clients
pub mod Sums
pub mod Rates
pub mod Refused
pub mod Rules
