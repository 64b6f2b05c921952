pub mod IdSearch
pub mod Bits
pub mod FirstMark
pub mod MarksWalk
pub mod MarkedIds
