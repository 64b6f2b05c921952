-- The lines of a text, and the place of a reader.
pub mod LineSpans
pub mod ReaderMoved
