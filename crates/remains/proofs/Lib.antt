-- Tables with remains mean what they meant, and have them wherever no packet waits; where a run on them starts, and that an
-- earlier history shows in no answer.
pub mod KeptPlaces
pub mod OverwrittenPlaces
pub mod Starting
pub mod EarlierHistory
