pub mod LineEnds
pub mod LinesAhead
