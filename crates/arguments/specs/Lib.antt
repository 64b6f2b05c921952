-- What it is that arguments are numbers.
pub mod Numbers
