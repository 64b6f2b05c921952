-- How the parts of a slot do what they promise: whose turn it is, what is sent, the turn done, the refill, and the tick of all these.
pub mod ChosenTurn
pub mod PacketSent
pub mod DummySent
pub mod TurnDone
pub mod RefillMarked
pub mod RefillEach
pub mod Refill
pub mod WholeTick
pub mod TickCounts
