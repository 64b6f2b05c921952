-- The proofs over the definitions. A reader of what is claimed needs none of them.

-- laws of the definitions, cited by what follows
pub mod Laws
pub mod Generator
pub mod Sample
pub mod Draw
pub mod Evenness
-- small facts, and the cases of the papers
pub mod Everything
pub mod Facts
pub mod Cases
-- the claims of all histories
pub mod Readings
pub mod Limits
pub mod Fits
pub mod Bound
pub mod Sameness
pub mod ToldNotes
pub mod Stretches
pub mod Counts
pub mod ChosenSheet
pub mod CountExamples
pub mod Fairness
-- the versions that have to break the contract
pub mod WrongVersions
-- editions with other numbers of places
pub mod Editions
