-- What the functions of the parser find, said over the grammar's definitions.
pub mod Numbers
pub mod Texts
pub mod Readings
pub mod Pairs
pub mod Words
