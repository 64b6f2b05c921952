-- What the functions under join, change and leave write: the parts of which the calls' promises are made.
pub mod Writes
