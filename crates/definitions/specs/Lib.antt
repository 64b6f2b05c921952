-- What the slot core means. The modules stand in the order in which a reader needs them; each says what of the papers it
-- stands for. No proof stands in this folder: ../proofs has them.

-- the numbers that a later edition may change
pub mod Sizes
-- the pieces
pub mod Generator
pub mod Sample
pub mod Draw
pub mod Client
pub mod Stock
pub mod State
-- answers, and the table of numbers
pub mod Answers
pub mod Checks
pub mod Refusals
pub mod ClientKinds
-- the seven calls
pub mod Event
pub mod Calls
pub mod Tick
pub mod Core
-- what is claimed: of all histories, of a draw, and case by case; and fair rates, with what is claimed of them
pub mod History
pub mod Traces
pub mod Counts
pub mod Sameness
pub mod Counted
pub mod Notes
pub mod Limits
pub mod Fits
pub mod TenantSheet
pub mod Stretch
pub mod Bound
pub mod Greedy
pub mod Guarantee
pub mod Switching
pub mod FirstPacket
pub mod FairRates
pub mod Fairness
pub mod Evenness
pub mod Cases
pub mod GreedyExamples
pub mod GuaranteeExamples
pub mod SwitchingExamples
pub mod CountExamples
pub mod FairExamples
-- what is easy to get wrong
pub mod Facts
-- what the claims rule out
pub mod Altered
pub mod Editions
pub mod Leaks
pub mod WrongVersions
