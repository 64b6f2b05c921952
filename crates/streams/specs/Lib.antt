-- What reading and writing give: counts of bytes, since no contract can say which bytes go in and out.
pub mod Reading
pub mod Writing
