-- What the arguments ask for, and the buffer that the answer goes through.
pub mod PieceRoom
pub mod Requests
