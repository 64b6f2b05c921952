-- What writing a text into lent bytes means, and then a line.
pub mod Appended
pub mod Printed
