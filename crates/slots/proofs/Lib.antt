pub mod PiecesCounted
pub mod OptionBytes
