-- Stretches: of a client that offers all that it can (paper 02, S-10), of steady settings (S-14), and of a client that switches
-- its type (S-4).
pub mod Waiting
pub mod Offering
pub mod Greedy
pub mod GreedyExamples
pub mod Steady
pub mod Guarantee
pub mod GuaranteeBest
pub mod GuaranteeExamples
pub mod Switching
pub mod SwitchingExamples
pub mod FirstPacket
